mod Examples
mod Rows
mod Viewed
mod Enough
mod Judging
