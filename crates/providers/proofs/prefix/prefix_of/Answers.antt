-- One byte more, which fits, since eight bytes do.
use Rattle.std.proofs.Common.{unwrap_or, ◌≡◌, ◌+◌, ◌*◌, ℕ, suc, get_or, sym, ap, ◌∙◌, arith}
use Rattle.providers.specs.Prefix.{leading}
use Rattle.providers.proofs.PrefixLemmas.{leading-zero, leading_next, prefix_small}
use Rattle.providers.proofs.prefix.prefix_of.Goals as goal

pub loop-place-init : goal.loop-place-init
loop-place-init c = record {
  value = sym (leading-zero c.args.name.now);
  bytes = λ k. omega (arith, c.type_inv.name k);
}

pub overflow_mul-prefix : goal.overflow_mul-prefix
overflow_mul-prefix c =
    let small = prefix_small c.loop-place.place c.loop-place.prefix c.args.name.now c.loop-place.invariant.bytes c.loop-place-test.true c.loop-place.invariant.value in
    omega (arith, small)

pub overflow_add-prefix : goal.overflow_add-prefix
overflow_add-prefix c =
    let small = prefix_small c.loop-place.place c.loop-place.prefix c.args.name.now c.loop-place.invariant.bytes c.loop-place-test.true c.loop-place.invariant.value in
    omega (arith, small, c.unwrap_or-byte.type_inv)

pub loop-place-preserved : goal.loop-place-preserved
loop-place-preserved c =
    let next : suc c.loop-place.place ≡ c.loop-place.place + 1 = omega arith in
    let byte : c.unwrap_or-byte.result ≡ get_or c.args.name.now c.loop-place.place 0
    = c.unwrap_or-byte.ensures ∙ ap (λ o. unwrap_or o 0) c.copied.ensures ∙ c.get.ensures.lookup.4 (omega arith) 0 in
    record {
      value = ap (λ (prefix : ℕ). prefix * 256 + c.unwrap_or-byte.result) c.loop-place.invariant.value
          ∙ ap (λ (b : ℕ). leading c.loop-place.place c.args.name.now * 256 + b) byte
          ∙ sym (leading_next c.loop-place.place c.args.name.now)
          ∙ ap (λ (count : ℕ). leading count c.args.name.now) next;
      bytes = c.loop-place.invariant.bytes;
    }

pub returns : goal.returns
returns c =
    let all : c.loop-place.place ≡ 8 = omega arith in
    record {
      value = c.loop-place.invariant.value ∙ ap (λ (count : ℕ). leading count c.args.name.now) all;
      bytes = c.loop-place.invariant.bytes;
    }
