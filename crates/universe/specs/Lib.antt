pub mod Admitted
