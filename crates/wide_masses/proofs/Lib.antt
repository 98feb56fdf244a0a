mod Keys
mod Quotients
