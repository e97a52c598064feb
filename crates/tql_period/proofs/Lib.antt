mod Parts
mod Rising
mod Sweep
