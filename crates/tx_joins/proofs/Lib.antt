mod Chains
mod Pairs
mod Rows
mod SeenRows
