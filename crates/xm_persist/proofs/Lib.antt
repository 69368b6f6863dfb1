mod Grounds
mod Granting
mod RightsHold
mod TwoCycles
