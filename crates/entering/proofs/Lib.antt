pub mod NonceLaws
