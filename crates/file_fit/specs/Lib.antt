pub mod FileFit
