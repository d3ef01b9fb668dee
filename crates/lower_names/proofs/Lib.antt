-- Named: names that are picked, each once.
pub mod Named
