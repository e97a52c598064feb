mod Gaps
mod Unsought
