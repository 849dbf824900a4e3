mod Keeping
mod Silent
