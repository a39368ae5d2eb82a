mod Affine
mod Limits
mod Between
mod Families
mod Past
