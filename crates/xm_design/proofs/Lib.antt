mod Coloured
mod Counting
mod Fitting
mod Lengths
mod Listing
