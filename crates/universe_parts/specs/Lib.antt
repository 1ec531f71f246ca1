pub mod Pair
pub mod Parts
pub mod FindLaws
pub mod PairLaws
pub mod SearchLaws
