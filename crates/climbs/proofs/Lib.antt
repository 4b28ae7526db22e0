pub mod ClimbLaws
