pub mod Workbench
