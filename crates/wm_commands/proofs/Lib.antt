mod Answering
mod Behind
mod Floats
mod Holders
mod Listed
mod Named
mod Round
mod Texts
