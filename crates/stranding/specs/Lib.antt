pub mod Stranding
