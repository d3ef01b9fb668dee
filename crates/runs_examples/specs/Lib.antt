-- What comes of a packet that the runner of the tests takes: `Twice`. The parts of the frames of the tests: `Layouts`.
pub mod Twice
pub mod Layouts
