mod NotIn
mod Steps
