mod Finding
mod Turning
mod Guiding
mod Walking
mod TurnedTerrain
