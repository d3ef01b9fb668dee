-- EntriesFile: what fills the tables of a program, or why nothing does. PortsFile: the ports that packets come in on, or why there are none.
pub mod EntriesFile
pub mod PortsFile
