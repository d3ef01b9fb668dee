-- How long a program is that was read; the definition is this project's own. Laws: what is proved.
pub mod Laws
