mod Asking
mod Standing
