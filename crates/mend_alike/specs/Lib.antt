-- What a walk says and gathers, but for where names start.
pub mod Plain
