mod Factors
mod MaskSizes
mod Parts
mod Places
mod Shifted
mod Central
