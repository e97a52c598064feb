mod Characters
mod Endings
