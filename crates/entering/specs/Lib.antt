pub mod Nonces
