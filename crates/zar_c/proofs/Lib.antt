mod Refusing
mod Answering
