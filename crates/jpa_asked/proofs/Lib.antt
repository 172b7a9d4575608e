mod Bound
mod Read
