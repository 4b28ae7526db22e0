pub mod ServeLaws
