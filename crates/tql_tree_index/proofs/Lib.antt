mod Adding
mod Sides
mod Tops
mod Turns
