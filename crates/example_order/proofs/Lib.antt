mod Beginnings
mod Front
