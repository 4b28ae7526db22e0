pub mod Issued
