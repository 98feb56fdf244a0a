pub mod NarrowRows
mod NarrowLines
