mod Stand
mod Prints
