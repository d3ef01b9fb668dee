pub mod ItemReading
