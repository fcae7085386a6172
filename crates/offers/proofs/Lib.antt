mod Adding
mod Rules
