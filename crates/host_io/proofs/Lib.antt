mod Growth
mod Left
mod Maps
