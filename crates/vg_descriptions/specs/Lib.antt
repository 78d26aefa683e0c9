pub mod Descriptions
pub mod Proper
