mod SameBits
mod Scheduled
mod Written
