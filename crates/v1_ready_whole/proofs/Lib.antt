mod Naming
mod Standard
mod Standing
mod Calling
mod Making
