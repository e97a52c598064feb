mod Answering
mod Dashing
