mod Written
mod Names
mod Found
