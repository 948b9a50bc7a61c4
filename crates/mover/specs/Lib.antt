pub mod Foremost
