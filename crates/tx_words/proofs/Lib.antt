mod Numbers
mod Refusals
