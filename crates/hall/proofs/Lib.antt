mod Fitting
mod Making
mod Replying
mod Sessions
