pub mod ReceiveSteps
