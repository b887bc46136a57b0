pub mod Table
pub mod Places
pub mod Perms
pub mod Keys
pub mod Routes
pub mod Asked
pub mod Caches
pub mod Laws
