mod Gathered
mod Negating
mod Quantifying
mod Trees
