mod Common
mod Apart
mod Fronts
mod Octets
mod Pieces
mod StandardAddresses
mod StandardFacts
