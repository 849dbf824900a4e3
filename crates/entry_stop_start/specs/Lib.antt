pub mod StopStart
