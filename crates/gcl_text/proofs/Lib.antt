mod Refusals
mod Spelled
mod Tokens
