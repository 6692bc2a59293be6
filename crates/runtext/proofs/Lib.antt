mod CallSteps
mod HexSteps
