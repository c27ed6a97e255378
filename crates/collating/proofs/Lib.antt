mod Judged
mod Numbering
mod Recording
mod Spaces
mod Stretches
