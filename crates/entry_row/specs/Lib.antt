pub mod OnImages
