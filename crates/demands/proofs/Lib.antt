pub mod CallsShow
pub mod Demands
pub mod Example
pub mod OneCall
