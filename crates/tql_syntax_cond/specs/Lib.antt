pub mod Mixtures
