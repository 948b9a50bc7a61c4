pub mod Numbers
pub mod Layouts
pub mod Items
pub mod Firsts
pub mod Filling
