mod HereLaws
mod TurnLaws
mod EndLaws
mod InputLaws
mod ArmLaws
